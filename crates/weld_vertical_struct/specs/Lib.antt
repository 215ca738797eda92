pub mod Parting
pub mod Held
