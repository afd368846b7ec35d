pub mod Regions
pub mod Listing
pub mod Steps
