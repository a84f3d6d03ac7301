-- The definitions, computed on small pages.
pub mod Comparison
