-- What the call that imports a text answers and leaves; what is known of a text before its codes are read, and the table by which they
-- are. Nothing here imports a law or a proof.
pub mod ImportCall
pub mod Tables
