-- The bench's calls for a SCSI host.
pub mod Dock
pub mod Promises
