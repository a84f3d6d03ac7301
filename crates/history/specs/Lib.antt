-- Demand 3: what every run of a device keeps, and how a removal gets on.
pub mod Demand3
pub mod Ledger
pub mod PowerUp
pub mod Progress
pub mod Promise
pub mod Runs
pub mod Starts
