-- The sheet of a record, and the call that writes it, in reading order. Nothing here imports a law or a proof.
pub mod Printed
pub mod WriteCall
