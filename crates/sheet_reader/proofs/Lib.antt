pub mod Lists
pub mod Delivery
pub mod ReadCall
