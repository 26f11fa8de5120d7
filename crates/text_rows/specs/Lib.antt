pub mod Words
pub mod Lines
pub mod FirstBad
pub mod Laws
