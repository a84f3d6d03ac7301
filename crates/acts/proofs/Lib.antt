-- What is proved of the calls of a script.
pub mod Acts
pub mod DockActs
pub mod Once
