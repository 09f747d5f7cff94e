pub mod Begins
pub mod Counted
pub mod Held
pub mod MarkedOn
pub mod Settled
