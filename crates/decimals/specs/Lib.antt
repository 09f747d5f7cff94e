pub mod Wrote
pub mod Decimals
pub mod Lines
pub mod Lent
pub mod Backwards
pub mod Fields
