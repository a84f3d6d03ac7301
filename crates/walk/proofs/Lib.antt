-- What is proved of a walk's definitions, and of its functions.
pub mod Examples
pub mod Moves
pub mod Pages
pub mod Walks
