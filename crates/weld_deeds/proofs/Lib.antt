mod ArmLemmas
mod BodyLemmas
mod ChosenLemmas
mod DeedForms
mod Doing
mod FieldLemmas
mod ListLemmas
mod ManyPairs
mod ManyPuts
pub mod Merges
mod NamedLemmas
mod PairLemmas
mod PutLemmas
mod RowLemmas
mod ThroughLemmas
