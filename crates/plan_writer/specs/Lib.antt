pub mod WritePlan
pub mod RecordType
pub mod Room
pub mod Demand2
