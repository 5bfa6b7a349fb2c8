pub mod Places
pub mod Faults
pub mod NetOf
pub mod WireTable
pub mod PutNumbers
