pub mod Answers
pub mod Sections
pub mod Steps
