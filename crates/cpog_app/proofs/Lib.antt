pub mod EndingLemmas
pub mod AgreeLemmas
