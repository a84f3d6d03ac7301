-- The line that ends the text of SCSI data that is not whole.

pub mod Tally
