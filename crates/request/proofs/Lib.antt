-- What is proved of a request's definitions, and of its functions.
pub mod Examples
pub mod Judgement
pub mod Requests
pub mod ReservedBits
