-- What is proved of the making, and of the examples.
pub mod EveryMaking
pub mod Examples
pub mod Making
