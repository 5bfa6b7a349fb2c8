-- What a law of a step is, and its clause. Nothing here imports a law or a proof.
pub mod LawForms
