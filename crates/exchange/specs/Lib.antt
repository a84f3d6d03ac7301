-- Pages and SCSI data, turned into each other, and read.
pub mod Exchange
pub mod Lent
