pub mod Found
pub mod Line
pub mod Words
