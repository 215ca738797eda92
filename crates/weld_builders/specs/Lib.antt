pub mod Builder
pub mod Groups
pub mod Outcome
pub mod Part
pub mod Range
pub mod ValueOrder
