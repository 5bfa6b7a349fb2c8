-- The conversion of a sheet to one port, in reading order. Nothing here imports a law or a proof.
pub mod SecondPort
pub mod OnePortCall
pub mod Renumbered
