-- The text of a listing.

pub mod Sheet
