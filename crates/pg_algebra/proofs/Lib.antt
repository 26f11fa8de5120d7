pub mod ListLaws
pub mod GraphLaws
pub mod TreeLaws
pub mod ValuationLaws
pub mod TableLemmas
pub mod ParamLemmas
pub mod KnownLemmas
