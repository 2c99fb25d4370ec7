pub mod Signed
pub mod Record
pub mod Needed
pub mod FirstTests
pub mod Known
