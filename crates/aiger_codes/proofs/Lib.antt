pub mod WireTable
pub mod Filling
pub mod Outputs
