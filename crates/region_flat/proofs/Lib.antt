pub mod Due
pub mod Turn
pub mod Same
