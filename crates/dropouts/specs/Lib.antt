pub mod Dropouts
pub mod CountedDropouts
