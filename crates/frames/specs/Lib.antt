-- What the output holds of the text that `frames` writes. Nothing here imports a law or a proof.
pub mod Written
