-- What is proved of every event.
pub mod EveryCall
pub mod Fits
pub mod OneCell
pub mod PowerCut
pub mod Shapes
