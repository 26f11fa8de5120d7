pub mod Given
pub mod Placed
pub mod Sizes
pub mod Totals
pub mod Decoded
pub mod Evidence
pub mod Laws
