pub mod CoveredLemmas
pub mod Mantel
pub mod PairCount
pub mod PairWalks
pub mod PairLemmas
pub mod ScenarioLemmas
