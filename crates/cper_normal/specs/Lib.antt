pub mod Normal
pub mod Steps
