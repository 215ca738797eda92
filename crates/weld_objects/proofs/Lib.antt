mod Numbers
mod Meanings
mod Types
pub mod Trees
mod Origins
mod Taken
mod Refusals
mod Looked
mod Changing
mod BoundParts
mod Answers
mod Scopes
pub mod Lists
mod Placing
pub mod State
mod Rest
mod Means
pub mod Rules
pub mod Counts
mod Start
mod ReachedLaws
pub mod Growing
pub mod Sound
mod Lowering
