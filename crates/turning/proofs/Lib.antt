-- What is proved of a file's conversion.
pub mod Turning
