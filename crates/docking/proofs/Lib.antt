-- What is proved of the calls for a SCSI host.
pub mod Calls
pub mod Once
