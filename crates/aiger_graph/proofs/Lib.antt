-- Laws of specs/, for the proofs of the crates that name a record's graph. No contract cites them.
pub mod Values
pub mod RecordAig
