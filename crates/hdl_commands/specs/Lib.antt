pub mod Addresses
pub mod Ended
pub mod Exits
pub mod Printout
pub mod Replace
pub mod Rows
pub mod Update
