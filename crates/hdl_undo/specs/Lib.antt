pub mod Before
pub mod Undo
