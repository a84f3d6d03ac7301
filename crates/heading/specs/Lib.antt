-- The line that a listing begins with.

pub mod Private
