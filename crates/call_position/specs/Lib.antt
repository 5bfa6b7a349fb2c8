-- A running record, in reading order: where it stands, its moves, its groups and its literals. Nothing here imports a law or a proof.
pub mod Positions
pub mod Moves
pub mod GroupsAt
pub mod Literals
