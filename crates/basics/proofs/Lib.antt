pub mod Bools
pub mod Orders
pub mod Parts
pub mod Unique
