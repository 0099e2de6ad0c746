pub mod Lines
pub mod Prefixes
pub mod Rows
pub mod Covers
pub mod Laws
