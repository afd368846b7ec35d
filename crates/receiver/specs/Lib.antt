pub mod Refusals
pub mod Arrived
pub mod Waiting
pub mod Lookups
pub mod Fronts
pub mod Calls
pub mod Steps
