-- What is proved of writers.
pub mod Puts
pub mod Spelled
pub mod Tens
