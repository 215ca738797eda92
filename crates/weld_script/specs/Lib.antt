pub mod Soak
pub mod Script
