pub mod Columns
mod Legs
pub mod RowItems
pub mod RowHolds
pub mod TwiceRule
mod Cases
mod PickRule
mod PickedCases
mod PlaceLemmas
pub mod RowLemmas
pub mod Weights
mod Single
mod Dropped
