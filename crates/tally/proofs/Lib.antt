-- What is proved of the line.
pub mod Line
