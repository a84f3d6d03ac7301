-- What is proved of a listing's text, and of a whole text in a lent buffer.
pub mod Sheet
pub mod Whole
