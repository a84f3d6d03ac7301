-- What is proved of `changes`' definitions, and of its functions.
pub mod Changes
pub mod Lengths
pub mod Reserved
