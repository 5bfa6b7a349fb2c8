-- How the test goes through an invariant. Nothing here imports a law or a proof.
pub mod Progress
