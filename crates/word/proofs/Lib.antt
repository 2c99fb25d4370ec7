pub mod Halves
pub mod Ring
pub mod Residues
pub mod SignedReading
pub mod Signs
