pub mod Multiples
pub mod Histories
