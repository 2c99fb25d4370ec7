pub mod Ends
pub mod OtherAxis
