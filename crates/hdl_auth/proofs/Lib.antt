pub mod Digests
pub mod Verdicts
