pub mod LaneViews
pub mod Lanes
pub mod Marks
pub mod Sized
