pub mod Later
pub mod Same
