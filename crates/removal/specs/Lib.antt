-- The removal of an element: its checks.
pub mod Remove
