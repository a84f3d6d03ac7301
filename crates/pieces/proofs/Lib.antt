-- What is proved of `pieces`' definitions, and of its functions.
pub mod EveryLine
pub mod Gathering
