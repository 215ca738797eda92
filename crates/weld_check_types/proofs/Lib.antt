mod Left
mod Params
mod Answered
mod TypeWalkNoting
mod Uses
mod Sameness
pub mod Found
mod Noting
mod Same
