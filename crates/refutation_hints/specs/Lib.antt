-- When a lemma follows by hints, and how the code keeps what is false. Nothing here imports a law or a proof.
pub mod Propagation
pub mod Marks
