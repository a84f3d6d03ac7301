-- A file's conversion.
pub mod Promises
pub mod Turning
