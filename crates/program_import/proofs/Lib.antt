pub mod Room
pub mod Lines
pub mod Cut
pub mod Prefix
