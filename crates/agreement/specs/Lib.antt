-- The device and the reader together.

pub mod Agreement
pub mod Examples
pub mod Sent
