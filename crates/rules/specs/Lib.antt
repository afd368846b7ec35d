pub mod Rules
pub mod Intel
pub mod Columns
