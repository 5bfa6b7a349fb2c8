-- What a certificate says of every depth, and what the call that checks one answers and leaves. Nothing here imports a law or a proof.
pub mod CertifiedForever
pub mod ForeverCall
