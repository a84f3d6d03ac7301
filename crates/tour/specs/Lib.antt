-- A walk over a device: request 2026-04.

pub mod Tour
