pub mod Renamed
pub mod RenamedOrigins
pub mod Numbering
pub mod Answered
pub mod Objects
pub mod Reached
pub mod Additions
pub mod Lowered
