-- What is proved of words and numbers as text.
pub mod Digits
pub mod ReadBack
