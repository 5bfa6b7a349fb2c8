-- A state and a feed of the model in lent tables, and which words a run touches. Nothing here imports a law or a proof.
pub mod Held
pub mod Touched
