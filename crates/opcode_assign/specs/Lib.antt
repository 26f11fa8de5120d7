pub mod Bits
pub mod Assignments
pub mod Laws
pub mod Logs
pub mod Searches
pub mod Answers
