pub mod ItemLemmas
pub mod GivenLemmas
pub mod ClauseLemmas
pub mod NumberedLemmas
pub mod CountLemmas
pub mod TotalLemmas
pub mod BoundLemmas
mod FormulaLemmas
mod DecodedLemmas
mod WrittenLemmas
pub mod EvidenceLemmas
