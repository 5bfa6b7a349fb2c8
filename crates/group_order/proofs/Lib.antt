pub mod InOrder
pub mod Successor
pub mod Remaining
