-- Fields of ten columns. Nothing here imports a law or a proof.
pub mod Fields
