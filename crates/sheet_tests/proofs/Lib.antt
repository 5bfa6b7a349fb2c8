pub mod LinesPassed
pub mod Verdicts
pub mod Codes
