pub mod Lines
pub mod Defined
pub mod Codes
pub mod Values
pub mod Verdict
pub mod Imported
