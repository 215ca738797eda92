pub mod FormTakes
pub mod Legs
pub mod Starts
