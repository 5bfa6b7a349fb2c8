-- What `export_aig` prints. Nothing here imports a law or a proof.
pub mod Printed
