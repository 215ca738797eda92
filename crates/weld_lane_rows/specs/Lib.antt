pub mod Answers
pub mod Columns
pub mod Outside
pub mod Rows
