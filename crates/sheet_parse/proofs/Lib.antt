pub mod Files
pub mod LineAnswers
pub mod LineTests
pub mod InProgress
