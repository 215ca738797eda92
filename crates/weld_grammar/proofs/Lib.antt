mod Table
pub mod Opening
mod Trees
mod Made
mod Kept
mod Reached
mod Unique
mod Broken
