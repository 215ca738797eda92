pub mod Decided
mod Clean
pub mod Valued
