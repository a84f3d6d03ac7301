-- Two pages compared: request 2026-01.

pub mod Differences
pub mod Private
pub mod Promises
pub mod Walk
