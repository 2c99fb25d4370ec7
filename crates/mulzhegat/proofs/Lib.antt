pub mod Calls
pub mod Places
