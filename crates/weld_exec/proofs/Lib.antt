mod Applying
mod Looping
mod Moving
mod Ranges
mod RowsLeft
mod Stepping
pub mod Tiling
