pub mod Wrote
pub mod Turns
