pub mod Tests
pub mod Sums
pub mod RowMajor
pub mod SignedBits
