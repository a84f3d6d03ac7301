-- The status page as device and reader share it: what stands at which byte, that it is read back, and what is reserved.
pub mod Bytes
pub mod Examples
pub mod Promises
pub mod Reserved
