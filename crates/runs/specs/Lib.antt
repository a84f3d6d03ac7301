-- A script as it runs.
pub mod Runs
