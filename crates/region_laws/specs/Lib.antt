pub mod Nested
pub mod Positions
pub mod Whole
pub mod Reach
pub mod Clauses
