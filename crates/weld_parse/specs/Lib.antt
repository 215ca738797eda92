pub mod Findings
pub mod Parses
pub mod Judged
pub mod Unread
