pub mod RectangleAnswers
pub mod SumAnswers
pub mod Bound
pub mod Heights
pub mod FourNumbers
