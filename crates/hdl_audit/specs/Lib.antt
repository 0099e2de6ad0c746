pub mod RequestKind
pub mod Naming
pub mod ReplySummary
