pub mod RecordWords
pub mod RoundTrip
