pub mod OfPair
