pub mod Cells
pub mod Lanes
pub mod Laws
pub mod Places
