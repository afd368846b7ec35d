pub mod Values
pub mod Fit
pub mod Steps
