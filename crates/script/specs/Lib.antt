-- The bench language: what a line says.
pub mod Names
pub mod Promises
