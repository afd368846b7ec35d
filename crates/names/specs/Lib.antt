pub mod Ascii
pub mod Names
pub mod Steps
