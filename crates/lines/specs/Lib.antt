-- A line of a script: its words and numbers.
pub mod Numbers
pub mod Parts
pub mod Private
