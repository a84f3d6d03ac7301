-- An offered table: its elements, and how it is split; which tables are good; the search; and what holds of these.
pub mod Check
pub mod Elements
pub mod Examples
pub mod Private
pub mod Promises
pub mod Search
