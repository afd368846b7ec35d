pub mod Version
pub mod Head
pub mod Steps
