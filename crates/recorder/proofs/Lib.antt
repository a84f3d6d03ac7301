-- What is proved of the library: its data and their layout, what the host's calls hand on, and the front call.
pub mod Data
pub mod Fits
pub mod Front
pub mod Handed
pub mod Layouts
