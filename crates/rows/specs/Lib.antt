pub mod Planned
pub mod Stored
pub mod Settled
