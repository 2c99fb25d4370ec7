pub mod Places
pub mod BeyondEdges
pub mod Strips
pub mod Output
pub mod StripReads
pub mod Tasks
pub mod Depends
pub mod Examples
