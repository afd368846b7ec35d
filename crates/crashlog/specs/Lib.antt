pub mod Listing
pub mod Containers
