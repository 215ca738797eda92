mod Depths
pub mod Integers
pub mod Keys
pub mod Lookups
pub mod Operations
pub mod Ranges
mod Rising
mod StructLemmas
mod Views
pub mod Wrapping
