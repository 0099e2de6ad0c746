pub mod Preferred
pub mod Words
