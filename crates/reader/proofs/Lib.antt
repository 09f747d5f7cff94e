pub mod OptionalLaws
pub mod RequestLaws
