pub mod Charges
pub mod Settled
