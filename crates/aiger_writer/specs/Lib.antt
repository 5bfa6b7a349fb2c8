-- The parts of a record's file, one by one. Nothing here imports a law or a proof.
pub mod Parts
