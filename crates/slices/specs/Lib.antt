-- Lists kept, tested, laid end to end, stored at a place, or added up.
pub mod Lists
