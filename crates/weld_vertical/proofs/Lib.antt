pub mod Spine
pub mod Seen
pub mod Related
mod Grafting
mod Arms
pub mod Handing
mod SinkPlaced
mod SinkMeans
mod Recognised
mod Cases
pub mod SinkRule
mod Chaining
mod Chains
mod Falling
mod Legs
mod Once
