pub mod Counts
pub mod Octets
