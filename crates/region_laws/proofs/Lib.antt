pub mod Shown
pub mod Tries
pub mod Positions
pub mod Bounds
pub mod Limits
pub mod Refusals
pub mod Reach
pub mod Clauses
