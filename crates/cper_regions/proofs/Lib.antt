pub mod Openings
pub mod Turns
pub mod Shows
