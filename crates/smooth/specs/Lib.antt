pub mod Input
pub mod Printed
