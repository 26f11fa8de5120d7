pub mod Words
pub mod Position
pub mod Reading
pub mod FirstBad
pub mod Either
pub mod Spelling
pub mod Lined
