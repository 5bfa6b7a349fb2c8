-- What a certificate says of a depth, and what the call that checks one answers and leaves. Nothing here imports a law or a proof.
pub mod Certified
pub mod Certificate
