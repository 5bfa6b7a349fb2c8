-- Groups and answers as numbers, for C and Rust. Nothing here imports a law or a proof.
pub mod Replies
