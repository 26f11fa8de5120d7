pub mod ClosureLemmas
pub mod CycleLemmas
pub mod EqualLemmas
pub mod RowLemmas
