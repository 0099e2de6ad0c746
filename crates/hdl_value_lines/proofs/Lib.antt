pub mod Readings
pub mod Spelt
pub mod Putting
pub mod RoundTrip
pub mod PlainText
pub mod PrintedLines
pub mod Whole
pub mod References
