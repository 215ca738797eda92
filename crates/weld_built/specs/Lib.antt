pub mod CellsState
pub mod Fields
pub mod Logged
pub mod Merges
pub mod Pair
pub mod PartCode
pub mod Rows
pub mod State
