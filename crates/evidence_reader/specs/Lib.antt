pub mod LogLines
pub mod Rows
pub mod Shown
pub mod Spacing
