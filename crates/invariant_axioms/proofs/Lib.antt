-- Laws for the crates that use them. No contract cites them.
pub mod Laws
pub mod Parts
