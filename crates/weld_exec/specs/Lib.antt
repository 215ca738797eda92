pub mod Run
pub mod Stacked
