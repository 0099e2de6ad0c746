pub mod Items
pub mod Leaves
pub mod Losses
pub mod Ones
pub mod Presents
pub mod RoundTrip
pub mod Sendings
