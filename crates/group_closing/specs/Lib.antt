pub mod OfClosing
