pub mod Adding
pub mod RowsFirst
