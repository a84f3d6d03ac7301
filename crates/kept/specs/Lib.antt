-- What the calls on the kept page leave of it.
pub mod Kept
