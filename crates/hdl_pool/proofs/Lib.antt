pub mod AssemblyLemmas
pub mod CellLemmas
pub mod JoinedLemmas
pub mod LaneLawLemmas
pub mod LawLemmas
pub mod PieceLemmas
pub mod StoreLemmas
pub mod TakenLemmas
