pub mod LinePasses
pub mod Response
pub mod Lines
pub mod LineRows
pub mod Units
