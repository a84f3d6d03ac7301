-- What is proved of the reader.

pub mod Examples
pub mod Ignored
pub mod LayoutTheorem
pub mod Once
pub mod Padding
pub mod Reserved
pub mod Rules
pub mod Taken
