pub mod GroupOrder
pub mod Joins
pub mod Maps
pub mod Order
pub mod Shapes
pub mod Steps
pub mod Structs
