-- What holds of every event at once.
pub mod Fits
pub mod Promises
