pub mod Words
pub mod Sizes
pub mod Heads
pub mod Longer
