pub mod Lines
pub mod Longest
