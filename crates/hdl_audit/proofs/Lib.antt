pub mod Gains
pub mod Own
