-- The line of `next`.

pub mod Moves
