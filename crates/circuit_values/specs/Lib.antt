-- Tables of a frame's values. Nothing here imports a law or a proof.
pub mod Gates
