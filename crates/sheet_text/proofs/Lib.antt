-- Laws of specs/, for the proofs of the crates that read or write a sheet. No contract cites them.
pub mod Parts
pub mod Placed
pub mod SheetText
pub mod WriteBack
pub mod DepthText
