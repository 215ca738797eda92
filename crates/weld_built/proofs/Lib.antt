mod CellsLemmas
mod KeyLemmas
mod ManyLemmas
mod PairLemmas
mod RowLemmas
mod TotalsLemmas
