pub mod Versions
pub mod Report
pub mod Parts
pub mod Stored
pub mod Rows
pub mod Spelling
pub mod Laws
