pub mod Lists
pub mod Places
pub mod Steps
pub mod Records
