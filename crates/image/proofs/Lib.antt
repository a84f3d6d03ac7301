-- What is proved of images: the reading of their numbers, what is put down in them, and the calls.
pub mod Calls
pub mod Every
pub mod Keeping
pub mod Reading
