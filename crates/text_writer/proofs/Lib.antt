-- Laws for the proofs of this crate and of those that write text. No contract cites them.
pub mod Table
pub mod Signed
pub mod Writing
