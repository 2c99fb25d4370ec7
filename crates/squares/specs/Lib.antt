pub mod LineBuffers
pub mod LinePasses
pub mod Rows
