-- The device of document 01: the events that it meets, and what each rules. Nothing but these changes a device.
pub mod Commands
pub mod Machine
pub mod Record
