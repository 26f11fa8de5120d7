pub mod Causes
pub mod StopLemmas
