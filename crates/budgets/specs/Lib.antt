pub mod Prepared
pub mod Ready
