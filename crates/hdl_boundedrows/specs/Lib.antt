pub mod Amount
pub mod Bounded
