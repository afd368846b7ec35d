pub mod Layouts
pub mod Header
pub mod Access
