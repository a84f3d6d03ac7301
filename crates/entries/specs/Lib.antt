-- The lines of a list's descriptors.

pub mod Entries
