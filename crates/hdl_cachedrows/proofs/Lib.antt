pub mod Keys
pub mod Totals
pub mod Truth
pub mod Puts
