-- What `read` returns and leaves. Nothing here imports a law or a proof.
pub mod ReadCall
