-- What is proved of numbers stored one after the other.
pub mod Strokes
