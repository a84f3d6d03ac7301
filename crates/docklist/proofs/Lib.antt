-- What is proved of `docklist`'s definitions, and of its functions.
pub mod Docklist
pub mod EveryListing
pub mod Examples
