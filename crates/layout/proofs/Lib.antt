-- What is proved of `layout`'s definitions, and of its functions.
pub mod Bytes
pub mod Examples
pub mod Fits
pub mod Reserved
pub mod Zeroed
