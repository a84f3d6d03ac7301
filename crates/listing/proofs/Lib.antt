-- What is proved of `listing`'s definitions, and of its functions.
pub mod EveryListing
pub mod Examples
pub mod Listing
pub mod Reserved
