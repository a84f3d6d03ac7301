-- Lines put together from pieces of input.
pub mod Pieces
pub mod Promises
