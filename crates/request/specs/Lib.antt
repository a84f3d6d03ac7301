-- A request for status pages, as device and reader share it: what it asks, and what it is answered.
pub mod Promises
pub mod Requests
