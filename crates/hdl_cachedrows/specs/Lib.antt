pub mod Cost
pub mod Cache
pub mod Cached
