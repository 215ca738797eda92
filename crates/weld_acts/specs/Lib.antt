pub mod Act
pub mod ActFits
pub mod PathView
pub mod Ranges
pub mod Test
