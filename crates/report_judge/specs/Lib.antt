pub mod Parts
pub mod Codes
pub mod Fitting
pub mod Known
pub mod Good
pub mod Reasons
pub mod Steps
pub mod Laws
