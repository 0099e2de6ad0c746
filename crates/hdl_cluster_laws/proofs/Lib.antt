mod Histories
mod Merging
pub mod Following
mod Kept
mod Whole
pub mod Parts
