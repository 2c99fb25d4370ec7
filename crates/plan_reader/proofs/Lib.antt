pub mod PassPlaces
pub mod RefusalRows
pub mod RecordParts
pub mod MadeArrays
