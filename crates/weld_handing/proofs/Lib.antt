pub mod Common
pub mod Regrafting
pub mod Free
pub mod Traces
pub mod Answering
pub mod ByName
pub mod Keeping
pub mod Cutting
pub mod Taking
pub mod Splitting
pub mod Clearing
pub mod Unchanged
pub mod Held
pub mod TypeRules
pub mod Types
pub mod Notes
pub mod Starting
pub mod Counting
pub mod SameNames
pub mod HandingOn
pub mod Staying
pub mod Answers
pub mod Meeting
pub mod PartsMean
pub mod Means
pub mod Row
pub mod Placing
pub mod Giving
pub mod Recognising
mod Lists
pub mod Walked
mod Handed
mod Noted
