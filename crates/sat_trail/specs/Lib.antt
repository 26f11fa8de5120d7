pub mod Trails
pub mod Propagation
pub mod Kept
