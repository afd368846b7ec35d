pub mod Checked
pub mod KeptFrom
pub mod Table
