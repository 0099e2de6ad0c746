pub mod Partial
pub mod Taking
pub mod Arrival
pub mod Assembly
pub mod Cells
pub mod Store
pub mod Laws
