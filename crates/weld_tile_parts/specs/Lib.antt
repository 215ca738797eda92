pub mod EvaluationCode
pub mod Kept
pub mod Parts
