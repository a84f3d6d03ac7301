-- The making of a device, what holds of it, and document 01's bench examples of the device that is made of table A.
pub mod Examples
pub mod Making
pub mod Promises
