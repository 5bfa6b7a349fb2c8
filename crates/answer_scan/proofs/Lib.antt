-- Laws of specs/, for the proofs of this crate. No contract cites them.
pub mod Ahead
pub mod Dead
pub mod Steps
pub mod Pieces
