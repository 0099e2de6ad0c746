pub mod Ended
pub mod Followed
pub mod Readings
pub mod Updates
