-- What is proved of a reading.
pub mod Contents
pub mod DockContents
pub mod Examples
pub mod Reserved
