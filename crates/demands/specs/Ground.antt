-- What more than one demand rests on: what is asked of a method, best, and what document 01 says of a good request and its workflow.
pub mod MethodLaws
pub mod Best
pub mod GoodRequest
pub mod GoodWorkflow
pub mod Held
