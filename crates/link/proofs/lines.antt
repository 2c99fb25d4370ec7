pub mod EdgeReads
pub mod StripRows
pub mod Filling
