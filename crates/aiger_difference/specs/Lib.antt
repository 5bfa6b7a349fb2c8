-- Differences in bytes. Nothing here imports a law or a proof.
pub mod Difference
