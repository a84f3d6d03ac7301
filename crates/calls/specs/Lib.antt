-- The lent list, and what holds of the lent calls.
pub mod Offered
pub mod Promises
