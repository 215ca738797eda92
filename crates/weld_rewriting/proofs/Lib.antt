pub mod Lists
pub mod Outcomes
pub mod Rows
pub mod Forms
pub mod Parts
pub mod Nodes
mod ReplacingLists
pub mod Lambdas
pub mod Counts
mod Staying
pub mod Tidying
mod Scopes
mod Programs
pub mod Rewriting
mod Falling
mod Sound
mod EachNodes
mod Following
mod Joined
mod Passed
pub mod Spelled
mod Tests
