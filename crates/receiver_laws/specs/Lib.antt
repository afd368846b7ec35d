pub mod Stands
pub mod Received
