pub mod Links
pub mod LinksLaws
pub mod Settled
