pub mod Marks
pub mod Blocks
pub mod LineVariables
pub mod Passes
pub mod Definitions
pub mod Places
