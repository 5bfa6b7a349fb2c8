pub mod Runs
pub mod Through
