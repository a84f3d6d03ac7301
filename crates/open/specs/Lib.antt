-- What is open during a removal, and how a row of its table fits a command.
pub mod Open
pub mod Private
