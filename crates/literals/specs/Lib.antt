pub mod Lit
pub mod Numbering
