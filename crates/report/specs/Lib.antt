pub mod Tally
pub mod Sums
pub mod Values
pub mod Report
