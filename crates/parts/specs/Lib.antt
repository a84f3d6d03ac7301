-- A descriptor as part of its page: request 2026-01.

pub mod Parts
pub mod Promises
