pub mod Limits
pub mod Spelling
pub mod Reading
pub mod Writing
pub mod Laws
pub mod Composed
pub mod Tags
pub mod Faults
