-- What C's own list is made into.
pub mod Made
