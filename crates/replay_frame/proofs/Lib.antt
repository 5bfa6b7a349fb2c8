pub mod Replay
pub mod Filling
pub mod OneRun
pub mod RightAnswer
pub mod SaidAlike
