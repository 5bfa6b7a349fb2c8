pub mod PairGates
