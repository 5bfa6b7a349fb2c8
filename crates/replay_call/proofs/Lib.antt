pub mod ReplayCall
pub mod Settled
pub mod TableSuffices
pub mod RightAnswer
