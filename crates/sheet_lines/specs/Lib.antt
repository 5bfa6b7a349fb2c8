-- Lines of a sheet and the depth line, in reading order. Nothing here imports a law or a proof.
pub mod Letters
pub mod Lines
pub mod Depth
