mod Keys
pub mod Outcomes
pub mod Eaches
pub mod Totals
pub mod Groups
mod LoopLaw
pub mod Arguments
mod Legs
mod Shapes
mod MappedCalls
mod TotalCalls
mod KeyCalls
mod OtherCalls
pub mod Tallies
pub mod Histograms
mod EachCall
mod Wanted
mod Table
mod Fitting
mod Deciding
mod Short
mod Places
