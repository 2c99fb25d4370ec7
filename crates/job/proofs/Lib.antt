pub mod Starting
pub mod Tasking
pub mod Stepping
pub mod Running
