-- The line that a comparison ends with.

pub mod Ending
