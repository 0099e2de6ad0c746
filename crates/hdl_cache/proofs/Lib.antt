pub mod Entries
pub mod Views
pub mod Truth
pub mod Held
pub mod Beside
