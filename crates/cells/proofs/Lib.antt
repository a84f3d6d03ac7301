-- What is proved of the rulings, and of what the search sees.
pub mod Once
pub mod Sights
