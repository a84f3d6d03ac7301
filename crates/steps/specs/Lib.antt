-- The steps of a removal, winding up, and grades.
pub mod Private
pub mod Steps
