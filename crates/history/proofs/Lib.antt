-- Demand 3, proved.
pub mod Alike
pub mod Demand3
pub mod Events
pub mod Kept
pub mod Places
pub mod PowerUp
pub mod Progress
pub mod Promise
pub mod Runs
pub mod Starts
