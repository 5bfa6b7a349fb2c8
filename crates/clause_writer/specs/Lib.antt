pub mod EndedAfter
