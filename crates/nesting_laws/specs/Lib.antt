pub mod Nesting
pub mod Sections
pub mod Sharp
