-- The text of a comparison.

pub mod Comparison
pub mod Private
pub mod Promises
