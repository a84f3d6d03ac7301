-- What is proved of the reader of SCSI data.
pub mod Examples
pub mod LayoutTheorem
pub mod Once
pub mod Reserved
pub mod Slots
pub mod Taken
pub mod There
