mod Once
pub mod Arms
mod Cases
pub mod Left
mod Marks
pub mod Names
mod Lists
mod Fields
