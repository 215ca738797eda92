pub mod Counts
pub mod Mapped
pub mod Stretches
pub mod Shared
