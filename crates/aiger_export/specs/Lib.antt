-- A record exported as a binary AIGER file, in reading order. Nothing here imports a law or a proof.
pub mod ExportCall
pub mod Exported
