-- What holding for ever is, the bits of a state, clauses over them, and the variables of one step. Nothing here imports a law or a proof.
pub mod StateBits
pub mod Walk
pub mod Terms
