-- What is proved of `view`'s functions.
pub mod Shown
