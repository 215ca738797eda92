mod ColumnLemmas
mod Meaning
mod Merges
mod NumberLists
mod OutsideLemmas
mod PieceLemmas
