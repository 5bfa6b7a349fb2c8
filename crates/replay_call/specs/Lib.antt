-- What a replay answers and leaves. Nothing here imports a law or a proof.
pub mod ReplayCall
pub mod Settled
pub mod RightAnswer
pub mod Table
