-- Laws of this crate's definitions. No contract cites these files.
pub mod Ends
pub mod Soundness
pub mod Lemmas
