pub mod Route
pub mod Order
pub mod Failure
pub mod ServerHealth
pub mod Changes
pub mod ReplyCache
