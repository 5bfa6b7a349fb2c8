-- The netlist that an ASCII AIGER text describes, which texts are refused, and what is promised of the others, in reading order.
-- Nothing here imports a law or a proof.
pub mod TextNetlist
pub mod ImportVerdict
pub mod TextAig
pub mod Imported
