-- Laws of specs/, for the proofs of this crate and of those that export a file. No contract cites them.
pub mod OrderedAig
