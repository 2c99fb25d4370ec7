pub mod MacroValues
pub mod ExactOrVacant
pub mod SumFits
