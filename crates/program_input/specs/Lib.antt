-- What the program makes of its input. Nothing here imports a law or a proof.
pub mod Input
