pub mod Numbers
pub mod Stops
