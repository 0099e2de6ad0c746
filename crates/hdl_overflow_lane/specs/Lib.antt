pub mod Joining
pub mod ConnectionBuffers
pub mod Run
pub mod Laws
pub mod Timing
pub mod Connections
