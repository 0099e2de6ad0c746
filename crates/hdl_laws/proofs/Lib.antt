pub mod Joined
pub mod Maps
pub mod Names
pub mod Agreement
pub mod Writes
pub mod Steps
pub mod Restriction
pub mod Isolation
pub mod Codes
pub mod Reveals
pub mod Announced
mod Denied
pub mod Twins
pub mod TwinRuns
mod Covers
mod Calm
mod Unshared
mod Limits
