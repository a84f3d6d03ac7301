-- Short texts, and what a row of writers stores.

pub mod Private
pub mod Writing
