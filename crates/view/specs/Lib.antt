-- What a page shows of an element and of what is noted, and what a request asks for.
pub mod Shown
