pub mod Listed
pub mod Joined
pub mod Written
pub mod Pixel
pub mod Copies
