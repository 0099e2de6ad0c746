pub mod Apart
pub mod Frames
pub mod Listed
pub mod Told
