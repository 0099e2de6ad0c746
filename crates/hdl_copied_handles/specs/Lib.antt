pub mod Handles
pub mod List
pub mod Listed
pub mod Search
