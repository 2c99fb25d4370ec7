pub mod Rectangle
pub mod Corners
pub mod FourNumbers
pub mod Heights
