-- What the functions that write numbers fast promise beyond `decimal`, in reading order. Nothing here imports a law or a proof.
pub mod Table
pub mod Signed
pub mod Extends
