-- What `one_port` prints. Nothing here imports a law or a proof.
pub mod Printed
