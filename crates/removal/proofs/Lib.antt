-- What is proved of the checks.
pub mod Rules
