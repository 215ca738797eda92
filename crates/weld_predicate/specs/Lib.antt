pub mod Neutral
pub mod Guard
pub mod Predicating
