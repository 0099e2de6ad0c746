pub mod LawLemmas
pub mod Lanes
pub mod Places
pub mod Table
