-- Laws for the proofs of this crate. No contract cites them.
pub mod Mapped
pub mod SecondPort
pub mod OneCode
pub mod OnePortCall
