-- What is proved of `lines`' definitions, and of its functions.
pub mod Hexadecimal
pub mod Words
