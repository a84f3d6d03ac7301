-- The store of a step.
pub mod Stores
