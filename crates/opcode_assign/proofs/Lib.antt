pub mod EncodesLemmas
pub mod BitLemmas
pub mod AssignmentLemmas
pub mod TogetherLemmas
pub mod GivenLemmas
pub mod LogLemmas
pub mod CountingLemmas
pub mod SearchLemmas
