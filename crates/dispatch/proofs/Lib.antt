pub mod Parts
pub mod Searching
pub mod Deciding
