pub mod SplittingLemmas
pub mod TellingLemmas
pub mod FeedLemmas
