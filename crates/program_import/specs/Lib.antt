-- What `import_aag` prints. Nothing here imports a law or a proof.
pub mod Printed
