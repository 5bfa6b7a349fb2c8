-- Lines and words of a text. Nothing here imports a law or a proof.
pub mod Words
