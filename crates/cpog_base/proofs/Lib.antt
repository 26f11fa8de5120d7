pub mod BitLemmas
pub mod NamesLemmas
pub mod OpSetLemmas
pub mod ArcLemmas
pub mod ColumnLemmas
pub mod ServeLemmas
pub mod PatternLemmas
