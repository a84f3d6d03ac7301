-- The demands, of the lent calls: a refusal changes nothing, the reader gives back what was written, the SCSI data is the page converted, a walk
-- lists the whole list, demand 3 from the lent making on; that reserved bits are refused; and what holds of the library for C.
pub mod Demand1
pub mod GivesBack
pub mod Library
pub mod ReservedBits
pub mod Runs
pub mod SendsBack
pub mod SendsPage
pub mod Starts
pub mod Walks
