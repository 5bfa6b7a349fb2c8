-- One line more of a sheet, in reading order. Nothing here imports a law or a proof.
pub mod Due
pub mod LineFaults
pub mod Records
pub mod LineIndex
pub mod Lists
pub mod Steps
