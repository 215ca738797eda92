mod ConstantLemmas
pub mod Meaning
pub mod Parts
mod Places
pub mod Running
