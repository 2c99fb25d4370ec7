pub mod Numbers
pub mod KindWords
pub mod SignedBits
