-- The line of a difference.

pub mod Changes
pub mod Private
