-- What is proved of the table of what is open.
pub mod Rows
