-- An answer that is read in pieces. Nothing here imports a law or a proof.
pub mod AnswerRead
pub mod Scan
