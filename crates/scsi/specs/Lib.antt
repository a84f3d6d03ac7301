-- The checks of SCSI data, what its reader says, and what is reserved.
pub mod Data
pub mod Judgement
pub mod Layout
pub mod Promises
pub mod Reserved
