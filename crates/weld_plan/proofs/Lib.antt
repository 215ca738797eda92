mod Cases
pub mod Counting
pub mod Emitting
mod Leading
mod Paths
pub mod Programs
