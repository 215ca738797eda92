mod Outcomes
mod InPlace
mod Keeps
pub mod Direct
pub mod RowActs
pub mod RangeSteps
pub mod Children
pub mod RangeLaw
pub mod Decided
