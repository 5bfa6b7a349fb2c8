-- The calls over a record and unpacked lists. Nothing here imports a law or a proof.
pub mod Calls
