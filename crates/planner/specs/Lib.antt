pub mod Planned
pub mod Checks
pub mod Plans
pub mod Reach
pub mod Settled
