pub mod Stops
pub mod Tries
pub mod Whole
pub mod Steps
