pub mod Masks
pub mod Free
