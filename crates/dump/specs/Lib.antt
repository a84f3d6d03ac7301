-- A lent buffer as text.
pub mod Dump
pub mod Private
pub mod Promises
