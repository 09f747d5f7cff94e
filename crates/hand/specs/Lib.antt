pub mod Hand
pub mod HandLaws
