-- What is proved of `compare`'s definitions, and of its functions.
pub mod Ascending
pub mod EveryComparison
pub mod Examples
pub mod Merging
pub mod Places
pub mod Reserved
pub mod Standings
pub mod Steps
pub mod Walking
