pub mod Dump
pub mod CperDump
pub mod Number
pub mod Steps
