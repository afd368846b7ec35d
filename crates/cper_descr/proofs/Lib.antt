pub mod Bits
pub mod Lengths
pub mod Start
