-- The bench's front call.
pub mod Front
pub mod Promises
