-- What is proved of the registers' words.
pub mod Fitted
