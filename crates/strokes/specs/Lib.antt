-- Numbers as bytes, side by side.
pub mod Rows
