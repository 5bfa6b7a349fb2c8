-- Laws of specs/, for the proofs of this crate and of the program. No contract cites them.
pub mod Text
pub mod PrintCalls
