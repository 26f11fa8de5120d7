pub mod Rows
pub mod Cycles
pub mod Faults
pub mod Equals
pub mod Laws
