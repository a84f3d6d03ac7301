-- The checks of a page and what the reader says.

pub mod Judgement
pub mod Layout
pub mod Page
pub mod Promises
pub mod Reserved
