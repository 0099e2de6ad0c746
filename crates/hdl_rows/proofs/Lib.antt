pub mod Writes
pub mod RowLemmas
pub mod ShelfLemmas
pub mod RowsLemmas
pub mod Changes
pub mod Prefixes
pub mod Indexed
