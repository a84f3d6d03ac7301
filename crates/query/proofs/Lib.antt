-- What is proved of a SCSI host's request.
pub mod Queries
