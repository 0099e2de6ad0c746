pub mod Codecs
pub mod Loops
pub mod Heads
