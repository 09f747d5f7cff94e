pub mod Label
pub mod Length
pub mod ListLaws
pub mod Settled
pub mod Laws
pub mod Parts
