pub mod Meaning
pub mod Settled
