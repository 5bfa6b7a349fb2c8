-- What a sheet is read as, in reading order. Nothing here imports a law or a proof.
pub mod Sheet
pub mod LinesPassed
pub mod Codes
