pub mod Record
pub mod Lists
pub mod Ties
pub mod Dependence
pub mod Acceptance
