pub mod Into
pub mod Stored
pub mod Rows
pub mod Settled
