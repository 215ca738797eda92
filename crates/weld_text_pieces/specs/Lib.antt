pub mod Cuts
pub mod Joined
pub mod Filled
pub mod Appended
