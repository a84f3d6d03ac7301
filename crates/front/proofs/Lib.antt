-- What is proved of the front call.
pub mod Front
pub mod Once
