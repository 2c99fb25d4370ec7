pub mod Rows
pub mod CountedDropouts
pub mod CountAnswers
