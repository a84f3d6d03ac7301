-- What the bench says of the page that it reads.

pub mod Contents
pub mod DockContents
pub mod Private
pub mod Promises
