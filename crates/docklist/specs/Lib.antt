-- The listing of SCSI data.

pub mod Docklist
pub mod Promises
