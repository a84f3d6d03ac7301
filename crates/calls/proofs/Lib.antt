-- What is proved of the calls' data, of what a page shows, of a lent list, of the answers and of refusals.
pub mod Data
pub mod Fits
pub mod Front
pub mod Lists
pub mod Once
pub mod Refusals
