-- The lines of an ASCII AIGER text, in reading order. Nothing here imports a law or a proof.
pub mod Numbers
pub mod Parts
pub mod Written
pub mod Steps
