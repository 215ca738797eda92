pub mod Outcomes
mod Joining
pub mod Before
mod Law
pub mod Good
pub mod ValuesGood
pub mod WellFormed
pub mod PartsGood
pub mod NeverStuck
pub mod OriginTypes
pub mod Shapes
pub mod LoopLaw
mod LoopsThere
mod Programs
pub mod Names
mod WalkTests
pub mod Walk
pub mod OneType
mod Cases
pub mod Putting
pub mod Tracing
pub mod FreeNames
