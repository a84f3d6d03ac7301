-- The bench language: the calls, each from the words of its line.
pub mod Calls
pub mod DockCalls
