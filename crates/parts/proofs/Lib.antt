-- What is proved of `parts`' definitions, and of its functions.
pub mod EveryPart
pub mod Examples
pub mod Portions
pub mod Reserved
