-- Pages and SCSI data turned into each other.
pub mod Convert
pub mod Private
pub mod Promises
