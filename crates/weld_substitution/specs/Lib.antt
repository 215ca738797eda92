pub mod Redex
pub mod Uses
pub mod FreeNames
pub mod Gathering
