pub mod Meant
pub mod ArrivalLaws
pub mod MetLaws
pub mod WhyLaws
pub mod Settled
