-- What is proved of the checks: a law for each way out, and what a loop over them keeps; and of what is laid, that it is read back.
pub mod Checks
pub mod First
pub mod Laid
