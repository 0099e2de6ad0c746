pub mod Threaded
pub mod Inverse
pub mod Durable
pub mod Opened
pub mod Pending
pub mod Writes
