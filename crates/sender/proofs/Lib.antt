-- What is proved of the data for a SCSI host.
pub mod Sending
mod Walk
