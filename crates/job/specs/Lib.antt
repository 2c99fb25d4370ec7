pub mod Fits
pub mod RunCalls
pub mod RunList
pub mod RunSteps
