pub mod Header
pub mod Codec
