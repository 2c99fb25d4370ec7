pub mod Extents
pub mod Blocks
pub mod Neighbours
pub mod Shapes
