pub mod Courses
pub mod Lines
pub mod Crossing
pub mod Carrying
pub mod Writing
