pub mod Twice
pub mod Picked
pub mod Doubles
