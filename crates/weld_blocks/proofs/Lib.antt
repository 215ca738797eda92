pub mod ColumnLemmas
mod Gathering
mod KeyLemmas
pub mod LeafLemmas
mod LentLemmas
mod NoteLemmas
mod OuterLemmas
mod PickLemmas
mod Scalars
pub mod StructLemmas
mod TurnLemmas
pub mod Words
mod WorkLemmas
