-- What a refutation by lemmas and hints is, and where a lemma ends. Nothing here imports a law or a proof.
pub mod Refutation
pub mod Ends
