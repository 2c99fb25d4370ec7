pub mod Courses
pub mod Turns
pub mod OwnStrip
pub mod Linked
