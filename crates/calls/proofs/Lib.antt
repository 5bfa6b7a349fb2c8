pub mod Lent
pub mod Starred
