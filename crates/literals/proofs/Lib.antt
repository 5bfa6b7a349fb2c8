pub mod Literal
pub mod Products
