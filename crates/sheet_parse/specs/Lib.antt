-- A file of lines and what is read of it, in reading order. Nothing here imports a law or a proof.
pub mod Files
pub mod LineAnswers
pub mod NextLine
pub mod FileTests
pub mod Progress
