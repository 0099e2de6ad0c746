pub mod Lines
pub mod Fields
pub mod Read
pub mod Last
pub mod Laws
