pub mod Handing
pub mod Merging
pub mod Walking
