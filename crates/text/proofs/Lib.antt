pub mod Pieces
pub mod Numbers
pub mod Printed
