-- What is proved of `table`'s definitions, and of its functions.
pub mod Arrays
pub mod Ascending
pub mod Counts
pub mod Search
