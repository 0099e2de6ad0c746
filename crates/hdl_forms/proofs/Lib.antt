pub mod Entries
pub mod Leaves
pub mod Made
pub mod Parts
pub mod Rows
pub mod Short
pub mod Straight
pub mod Unchanged
