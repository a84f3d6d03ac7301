-- What is proved of `ending`'s definitions, and of its functions.
pub mod Ending
