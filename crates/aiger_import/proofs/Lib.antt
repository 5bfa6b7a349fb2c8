pub mod Sized
pub mod Table
pub mod Net
pub mod Tested
