-- What is proved of the demands.
pub mod Demand1
pub mod GivesBack
pub mod Library
pub mod LeftBy
pub mod ReservedBits
pub mod Runs
pub mod SendsBack
pub mod SendsPage
pub mod Starts
pub mod Walks
