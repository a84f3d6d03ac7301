-- What is proved of `script`'s definitions, and of its functions.
pub mod EveryLine
pub mod Examples
