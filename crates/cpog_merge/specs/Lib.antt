pub mod Filling
pub mod Laws
pub mod Columns
pub mod Classes
pub mod ByClass
pub mod Incompatible
pub mod Opens
