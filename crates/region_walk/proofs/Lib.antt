pub mod Ends
pub mod Turn
pub mod Start
