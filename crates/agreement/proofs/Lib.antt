-- What is proved of the device and the reader together.
pub mod Agreement
pub mod Examples
pub mod Lists
pub mod Pages
pub mod Sent
