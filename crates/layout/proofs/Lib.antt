pub mod Digits
pub mod Fields
pub mod Full
pub mod Puts
pub mod Runs
