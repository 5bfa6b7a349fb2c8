-- The public calls over lent lists, in reading order. Nothing here imports a law or a proof.
pub mod LentCalls
pub mod Starred
