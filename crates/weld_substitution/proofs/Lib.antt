pub mod Bindings
pub mod Clear
mod PutOrigins
pub mod PutTypes
pub mod PutCounts
pub mod PutMade
pub mod Chains
pub mod Values
pub mod ValueRules
mod Moved
pub mod Following
pub mod Unnamed
mod BuilderRules
pub mod PlainFacts
pub mod PlainRule
mod Way
pub mod Gaining
mod WayRules
mod WaySplits
mod WayMeans
mod UsedRule
mod Cases
mod Gathered
mod Left
mod Put
pub mod UsedNames
