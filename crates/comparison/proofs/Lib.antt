-- What is proved of `comparison`'s definitions, and of its functions.
pub mod Accepted
pub mod Comparison
pub mod EveryComparison
pub mod Lengths
pub mod Reserved
