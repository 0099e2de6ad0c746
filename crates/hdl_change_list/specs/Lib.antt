pub mod Sequence
pub mod Unread
