pub mod Together
pub mod Laws
pub mod Shared
pub mod SharedLaws
