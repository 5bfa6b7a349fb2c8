-- The laws of one step of the circuit. Nothing here imports a law or a proof.
pub mod Laws
