-- The device as C keeps it: how its numbers are read, what is put down in them, the calls, and what holds of them.
pub mod Calls
pub mod Keeping
pub mod Private
pub mod Promises
pub mod Reading
