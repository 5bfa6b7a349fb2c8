-- Refusals, and what a call sends back, in reading order. Nothing here imports a law or a proof.
pub mod Verdict
pub mod Refusal
pub mod Tests
pub mod Slices
