pub mod EntryOrder
pub mod Repeats
pub mod Start
