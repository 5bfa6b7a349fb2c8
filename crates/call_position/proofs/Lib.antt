pub mod Positions
pub mod Moves
pub mod GroupsAt
pub mod Literals
