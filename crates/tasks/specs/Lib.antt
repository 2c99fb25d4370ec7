pub mod Tasks
pub mod Neighbours
pub mod Counts
pub mod Marks
pub mod Verdict
pub mod Lent
