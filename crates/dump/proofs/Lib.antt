-- What is proved of a lent buffer as text.
pub mod Data
pub mod Dump
pub mod Examples
