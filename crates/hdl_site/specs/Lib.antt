pub mod Info
pub mod Raw
pub mod Making
pub mod Example
