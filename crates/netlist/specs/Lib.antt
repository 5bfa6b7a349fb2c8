pub mod NetOf
pub mod RecordOf
pub mod WireTable
pub mod Places
pub mod Faults
