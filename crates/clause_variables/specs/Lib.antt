pub mod PortOf
pub mod PortFits
pub mod OfPair
pub mod FrameFits
