-- Laws of specs/. No contract cites them.
pub mod Printed
