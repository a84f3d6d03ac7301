-- What calls say, in numbers alone.
pub mod Promises
pub mod Spans
pub mod Spelt
