pub mod Table
pub mod Write
pub mod Debt
pub mod Fuse
pub mod Laws
pub mod RowStore
pub mod Reads
pub mod Heads
