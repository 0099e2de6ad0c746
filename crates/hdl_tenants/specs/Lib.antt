pub mod Register
pub mod Lines
pub mod Text
pub mod Record
pub mod Steps
pub mod Laws
pub mod Taken
