pub mod Payload
pub mod WrittenWords
pub mod WriteAnswers
pub mod AcceptedWords
pub mod RoundTripWritten
pub mod RoundTripRead
pub mod Demand2
