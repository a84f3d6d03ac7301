-- What is proved of pages and SCSI data turned into each other.
pub mod Device
pub mod Exchange
pub mod Kept
pub mod Lent
