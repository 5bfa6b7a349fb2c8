pub mod Delivered
pub mod Unpacked
