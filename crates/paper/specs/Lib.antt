-- What document 01 speaks of: answers and senses, an element's bytes, flags, registers, the security table; `Told` and `Output`, in which promises
-- are put; and what holds of these.
pub mod Answers
pub mod Elements
pub mod Flags
pub mod Output
pub mod Promises
pub mod Registers
pub mod Table12
pub mod Told
