-- Words and numbers as text.

pub mod Digits
pub mod Promises
pub mod Text
