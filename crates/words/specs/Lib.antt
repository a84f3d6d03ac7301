-- Numbers as bytes, in either order.
pub mod Bytes
