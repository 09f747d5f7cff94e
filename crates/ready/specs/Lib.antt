pub mod Ready
pub mod ReadyLaws
