pub mod PlanBounds
pub mod AnswerBounds
