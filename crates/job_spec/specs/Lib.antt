pub mod Calls
pub mod Steps
pub mod Demand3
pub mod Rescan
pub mod Replaced
