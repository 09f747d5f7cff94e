pub mod ByProcessor
pub mod OrderLaws
