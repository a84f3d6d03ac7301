-- The calls of a script.
pub mod Acts
pub mod Promises
