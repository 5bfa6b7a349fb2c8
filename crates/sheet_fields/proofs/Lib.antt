-- Laws of specs/, for the proofs of this crate and of those that read lines. No contract cites them.
pub mod Fields
