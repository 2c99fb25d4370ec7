pub mod Slots
pub mod StripRecords
pub mod Edges
pub mod BlockBounds
