-- What is proved of runs.
pub mod Runs
