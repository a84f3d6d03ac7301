-- What the bench says, as text.
pub mod Promises
pub mod Replies
