pub mod Listed
pub mod Variables
pub mod Families
pub mod Templates
pub mod Laws
pub mod Values
pub mod Counts
