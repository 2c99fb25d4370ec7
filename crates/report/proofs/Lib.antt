pub mod Search
pub mod Tallies
pub mod LentMarks
pub mod Claims
