pub mod Fields
pub mod Data
pub mod Lines
pub mod Hiding
pub mod Printed
pub mod Laws
