pub mod Comparing
pub mod Counting
mod Sorting
mod Starting
