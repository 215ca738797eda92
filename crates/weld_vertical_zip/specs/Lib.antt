pub mod Zipping
pub mod Zips
