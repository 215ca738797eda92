pub mod Blocks
pub mod Extents
pub mod Job
pub mod Reading
pub mod Whole
