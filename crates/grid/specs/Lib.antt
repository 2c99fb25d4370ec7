pub mod Grid
pub mod Shapes
