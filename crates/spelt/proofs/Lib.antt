-- What is proved of answers in numbers.
pub mod Spans
