-- The listing of a status page.

pub mod Listing
pub mod Promises
