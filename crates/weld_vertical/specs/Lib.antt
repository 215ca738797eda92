pub mod Sinking
pub mod Chains
pub mod Fusing
