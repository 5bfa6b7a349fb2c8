-- Binary AIGER files. Nothing here imports a law or a proof.
pub mod BinaryText
