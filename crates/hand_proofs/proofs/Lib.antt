-- What each walk of a function's MIR repeats. No contract cites it.
pub mod Walk
