pub mod Steps
pub mod Performed
