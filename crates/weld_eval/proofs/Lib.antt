pub mod Arguments
pub mod Below
mod ByteLemmas
pub mod Children
pub mod LegLists
pub mod LoopSteps
mod OwnedNames
pub mod PackedLemmas
mod Pairs
pub mod RowLists
pub mod ScalarLemmas
pub mod Shorts
mod Starting
mod VectorLemmas
pub mod Words
