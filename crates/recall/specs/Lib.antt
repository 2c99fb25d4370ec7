pub mod Recall
pub mod RecallCall
pub mod Clearing
pub mod Examples
