pub mod Beside
pub mod Steps
pub mod Lanes
pub mod Joined
pub mod Sharing
mod Followed
mod Behind
