-- What `replay` prints, and what its room suffices for. Nothing here imports a law or a proof.
pub mod Printed
pub mod Room
