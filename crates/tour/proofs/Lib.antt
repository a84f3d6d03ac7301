-- What is proved of a walk over a device.
pub mod Changed
pub mod Counts
pub mod Examples
pub mod InOrder
pub mod Lists
pub mod Mix
pub mod Pages
pub mod Tour
