-- A record's graph in the order of a binary file. Nothing here imports a law or a proof.
pub mod OrderedAig
