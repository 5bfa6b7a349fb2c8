-- A replay through all frames in lent tables. Nothing here imports a law or a proof.
pub mod Runs
