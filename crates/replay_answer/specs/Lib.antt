-- What a replay answers to a text, and leaves. Nothing here imports a law or a proof.
pub mod ReplayAnswer
