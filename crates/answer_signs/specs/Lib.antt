-- The signs of variables in a list of numbers. Nothing here imports a law or a proof.
pub mod Signs
pub mod Marks
