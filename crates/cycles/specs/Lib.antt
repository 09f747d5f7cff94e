pub mod Marked
pub mod MarkedLaws
