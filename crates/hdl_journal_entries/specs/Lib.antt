pub mod Chain
pub mod Changes
pub mod Entries
pub mod Keys
pub mod Raw
