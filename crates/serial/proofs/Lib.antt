pub mod Stages
pub mod FirstWords
pub mod MapRows
pub mod Serial
pub mod SerialAnswers
pub mod Outputs
