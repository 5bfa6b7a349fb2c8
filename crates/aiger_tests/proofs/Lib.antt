pub mod TextVerdict
