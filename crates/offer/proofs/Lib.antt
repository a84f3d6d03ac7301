-- What is proved of `offer`'s definitions, and of its functions.
pub mod Check
pub mod Examples
pub mod Laws
pub mod Search
pub mod Splits
