-- A SCSI host's request.
pub mod Promises
pub mod Queries
