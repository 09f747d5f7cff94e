pub mod Sentences
pub mod Longest
