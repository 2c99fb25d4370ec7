pub mod Strips
pub mod Writes
pub mod ScaledEdges
pub mod Matching
pub mod Depends
pub mod Examples
