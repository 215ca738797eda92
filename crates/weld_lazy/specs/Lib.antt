pub mod ObjectCode
pub mod View
pub mod Lowering
pub mod IsLowered
pub mod Inputs
