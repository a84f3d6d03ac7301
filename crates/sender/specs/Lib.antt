-- The data of a device for a SCSI host.
pub mod Private
pub mod Promises
pub mod Sent
