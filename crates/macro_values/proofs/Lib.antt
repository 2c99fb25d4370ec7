pub mod Ends
pub mod WholeFloats
pub mod Quantities
pub mod ExactOrVacant
