pub mod Lookup
pub mod Parts
pub mod Views
pub mod Settled
pub mod Flow
