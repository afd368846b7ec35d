pub mod Stands
pub mod Decodes
