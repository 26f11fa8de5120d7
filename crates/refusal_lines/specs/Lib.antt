pub mod Refusal
pub mod Stops
pub mod Alike
