-- How far a page reaches, and two are compared: request 2026-01.

pub mod Opening
pub mod Pages
pub mod Promises
