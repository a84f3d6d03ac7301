-- What a script starts from, and what a call changes on its bench.
pub mod Changes
pub mod Empty
