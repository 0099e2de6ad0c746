pub mod Exchange
pub mod Followed
pub mod LaneHistory
pub mod Peers
pub mod Allowance
