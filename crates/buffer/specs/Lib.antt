pub mod Lists
pub mod Written
pub mod Pixel
pub mod Copies
