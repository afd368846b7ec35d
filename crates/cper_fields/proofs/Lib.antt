pub mod Copies
pub mod Laid
pub mod Lengths
pub mod Lists
