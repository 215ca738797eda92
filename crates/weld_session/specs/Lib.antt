pub mod Answer
pub mod Gathering
