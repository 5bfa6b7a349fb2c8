-- What a replay is, and one frame of it in lent tables. Nothing here imports a law or a proof.
pub mod Replay
pub mod Frames
