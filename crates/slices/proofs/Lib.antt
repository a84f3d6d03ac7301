-- What is proved of the lists.
pub mod Lists
