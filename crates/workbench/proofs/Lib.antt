-- What is proved of the bench's changes.
pub mod Changes
