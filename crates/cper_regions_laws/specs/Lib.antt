pub mod Positions
pub mod Whole
pub mod Answers
pub mod Clauses
pub mod Moved
pub mod One
pub mod Lies
pub mod Examples
