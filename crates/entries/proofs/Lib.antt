-- What is proved of the lines, and of the functions that store and measure them.
pub mod Entries
