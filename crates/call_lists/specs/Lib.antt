-- The lists that a caller lends: unpacked, and with records delivered into them. Nothing here imports a law or a proof.
pub mod Unpacked
pub mod Lent
pub mod Delivered
pub mod ListsBeside
pub mod Unpacking
pub mod RecordAt
