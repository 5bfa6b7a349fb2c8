pub mod ReplayAnswer
