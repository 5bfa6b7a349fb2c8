pub mod Pieces
pub mod Printed
pub mod Room
