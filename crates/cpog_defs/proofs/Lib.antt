pub mod WalkLemmas
pub mod SmallExamples
