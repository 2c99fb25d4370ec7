pub mod Work
pub mod WorkFits
pub mod Rectangles
