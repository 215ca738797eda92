pub mod CellLemmas
mod FieldLemmas
mod HashLemmas
pub mod KeptKeys
pub mod KeyedLemmas
mod ListLemmas
mod ManyLemmas
pub mod MapLemmas
pub mod PairLemmas
mod TotalLemmas
