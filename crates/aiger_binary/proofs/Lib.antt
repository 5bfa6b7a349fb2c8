-- Laws of specs/, for the proofs of this crate and of those that export a file. No contract cites them.
pub mod BinaryFile
pub mod Lines
pub mod Differences
pub mod BinaryText
pub mod ReadBack
