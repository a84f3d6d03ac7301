-- The lines of a listing.

pub mod Private
pub mod Rows
