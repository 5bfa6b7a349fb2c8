pub mod Record
pub mod OnePort
