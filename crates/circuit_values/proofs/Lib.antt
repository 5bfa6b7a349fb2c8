pub mod WireTable
pub mod Bits
