pub mod Jobs
pub mod Turn
pub mod Dispatch
pub mod Answers
pub mod Runs
