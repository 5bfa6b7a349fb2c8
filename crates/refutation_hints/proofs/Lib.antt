-- Laws of this crate's definitions. No contract cites these files.
pub mod Marks
pub mod Clauses
pub mod Outcomes
pub mod Soundness
