pub mod KeyTypes
mod ManyShapes
mod Results
pub mod Rows
pub mod Shapes
mod Starting
mod ThreeShapes
mod Turns
pub mod TwoShapes
