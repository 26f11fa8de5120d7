pub mod Causes
pub mod Told
pub mod Stores
pub mod Room
pub mod Laws
