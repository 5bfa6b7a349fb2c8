-- Laws of specs/. No contract cites them.
pub mod ExportCall
pub mod Exported
