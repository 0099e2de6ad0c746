pub mod Held
pub mod Machine
pub mod Worlds
pub mod Serving
pub mod Letting
pub mod Opening
