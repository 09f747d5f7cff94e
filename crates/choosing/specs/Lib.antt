pub mod Named
pub mod Asked
pub mod Figured
pub mod FiguredLaws
pub mod Leading
pub mod LeadingLaws
pub mod Settled
