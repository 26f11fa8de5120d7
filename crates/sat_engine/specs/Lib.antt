pub mod Steps
pub mod Lessons
pub mod Findings
pub mod Searches
pub mod Verdicts
pub mod Copies
pub mod Outcomes
pub mod Units
