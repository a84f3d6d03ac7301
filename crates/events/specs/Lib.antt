-- The events that the bench's lines say.
pub mod Events
