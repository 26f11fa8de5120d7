pub mod ArenaLemmas
pub mod WithinLemmas
