pub mod Graphs
pub mod Algebra
pub mod Conditions
pub mod Meaning
pub mod Tables
pub mod Laws
