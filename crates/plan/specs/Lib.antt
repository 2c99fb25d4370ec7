pub mod Rules
pub mod Sizes
pub mod FirstTests
pub mod PaddedLine
