-- What is left of a list that is put into a slice where there is room for it. Nothing here imports a law or a proof.
pub mod WhereRoom
