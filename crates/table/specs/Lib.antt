-- The table as built: its elements, the search and what it finds, the counts.
pub mod Elements
pub mod Promises
pub mod Search
