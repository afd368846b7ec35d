pub mod Heads
pub mod Finds
pub mod Tries
pub mod Runs
pub mod Bound
pub mod Stops
pub mod Whole
