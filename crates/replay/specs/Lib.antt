-- What the program knows of the file that it reads. Nothing here imports a law or a proof.
pub mod SomeText
