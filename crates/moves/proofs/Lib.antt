-- What is proved of the line of `next`.
pub mod Examples
pub mod Moves
