-- What the bench says of a device.

pub mod Inventory
pub mod Private
pub mod Promises
