pub mod Serial
pub mod Stages
