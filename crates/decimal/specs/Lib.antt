-- Numbers as decimal text, in reading order. Nothing here imports a law or a proof.
pub mod Digits
pub mod WroteAtEnd
pub mod TextValue
pub mod SignedValue
