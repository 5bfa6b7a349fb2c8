-- Laws for the proofs of this crate. No contract cites them.
pub mod WhereRoom
pub mod SoFar
