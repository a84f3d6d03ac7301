-- A host's walk over small pages: request 2026-04.

pub mod Next
pub mod Promises
pub mod Walk
