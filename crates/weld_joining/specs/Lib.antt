pub mod Beside
pub mod Between
pub mod Joining
pub mod Parts
