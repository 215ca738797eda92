pub mod Legs
pub mod Nodes
pub mod Parts
pub mod Programs
pub mod Rows
pub mod Steps
pub mod Turns
