-- What is proved of numbers as bytes.
pub mod Bytes
