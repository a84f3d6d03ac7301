-- The cells of document 01 and the stores that write them; what the search sees; and a ruling, which every call makes: a number, ONE store
-- and the next position.
pub mod Cells
pub mod Promises
pub mod Rulings
pub mod Sights
