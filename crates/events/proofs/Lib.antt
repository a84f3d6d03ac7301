-- What is proved of the bench's events.
pub mod Found
