pub mod Nodes
pub mod Rows
pub mod Turns
