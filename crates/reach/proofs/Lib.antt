-- What is proved of `reach`'s definitions, and of its functions.
pub mod Bounds
pub mod Cut
pub mod Once
pub mod Reserved
