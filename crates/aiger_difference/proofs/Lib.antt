-- Laws of specs/, for the proofs of this crate and of those that write a binary file. No contract cites them.
pub mod Decoding
pub mod Difference
