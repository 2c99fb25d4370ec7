pub mod Word
pub mod SignedReading
