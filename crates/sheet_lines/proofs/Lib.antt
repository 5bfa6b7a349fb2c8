-- Laws of specs/, for the proofs of this crate and of the reader of sheets. No contract cites them.
pub mod Letters
pub mod Lines
pub mod Depth
