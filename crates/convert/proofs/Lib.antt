-- What is proved of conversions.
pub mod Outcomes
pub mod Turned
pub mod Zeroed
