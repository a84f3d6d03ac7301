-- What is proved of the first line.
pub mod Heading
