pub mod Least
pub mod Parts
pub mod Turns
pub mod Answers
pub mod Performing
pub mod Fairness
pub mod AtOnce
