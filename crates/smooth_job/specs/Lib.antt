pub mod Program
pub mod Promises
