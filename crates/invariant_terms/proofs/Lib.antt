-- Laws for the crates that use them. No contract cites them.
pub mod Induction
pub mod StateBits
pub mod Walk
pub mod StepValues
pub mod Terms
