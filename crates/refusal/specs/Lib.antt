pub mod Refusals
pub mod Table
