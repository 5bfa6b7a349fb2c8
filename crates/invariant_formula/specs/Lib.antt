-- The clauses that say that the invariant holds now, and one step of the circuit breaks the property or the invariant; and the test of the start.
-- Nothing here imports a law or a proof.
pub mod Formula
pub mod AtStart
