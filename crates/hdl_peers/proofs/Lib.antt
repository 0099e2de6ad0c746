pub mod KeptLemmas
pub mod Numbers
