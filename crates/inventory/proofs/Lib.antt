-- What is proved of a device's lines.
pub mod Examples
pub mod Inventory
