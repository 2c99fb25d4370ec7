pub mod PlanFilters
pub mod FilterWords
pub mod Taps
pub mod Kernel
pub mod Windows
