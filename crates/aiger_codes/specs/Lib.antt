-- How the record and the lists of a text's netlist are filled. Nothing here imports a law or a proof.
pub mod WireTable
pub mod Filling
pub mod Outputs
