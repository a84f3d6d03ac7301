-- What is proved of `paper`'s definitions, and of its functions.
pub mod Once
pub mod Output
pub mod Table12
