-- The sheet of a netlist, and the same by the places of its lines, in reading order. Nothing here imports a law or a proof.
pub mod SheetText
pub mod PrintedAt
