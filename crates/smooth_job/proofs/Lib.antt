pub mod Signed
pub mod Input
pub mod SmoothAnswers
pub mod Laws
pub mod Cut
