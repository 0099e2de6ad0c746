pub mod Follows
pub mod Laws
