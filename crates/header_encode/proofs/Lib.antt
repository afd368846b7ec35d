pub mod Layouts
pub mod Fitting
pub mod Tables
pub mod Encoded
