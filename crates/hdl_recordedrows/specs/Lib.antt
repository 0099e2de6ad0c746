pub mod Before
pub mod Recorded
