-- And-inverter graphs and their values, in reading order. Nothing here imports a law or a proof.
pub mod Aig
pub mod RecordAig
