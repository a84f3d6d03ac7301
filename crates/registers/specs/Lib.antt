-- The words of a command's registers.
pub mod Registers
