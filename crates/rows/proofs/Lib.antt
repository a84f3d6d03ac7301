-- What is proved of `rows`' definitions, and of its functions.
pub mod Rows
