pub mod Reached
pub mod Closure
pub mod Recalled
pub mod Clearing
pub mod RecallAnswers
pub mod Examples
