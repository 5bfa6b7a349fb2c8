-- What an ASCII AIGER text defines and uses where, in reading order. Nothing here imports a law or a proof.
pub mod Definitions
pub mod Blocks
