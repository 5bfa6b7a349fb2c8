-- Laws of specs/, for the proofs of this crate and of those that read or write numbers. No contract cites them.
pub mod Digits
pub mod WroteAtEnd
pub mod TextValue
pub mod SignedValue
pub mod Signed
