-- What the reader looks at of a page's descriptors, and the first of several checks that offends.
pub mod Checks
pub mod First
pub mod Private
