pub mod Items
pub mod Depths
