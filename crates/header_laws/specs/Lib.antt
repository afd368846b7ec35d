pub mod Typed
pub mod Rounds
pub mod Agree
