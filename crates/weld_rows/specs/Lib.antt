pub mod Lent
pub mod Nodes
pub mod Numbers
pub mod RangeOn
pub mod RowActs
pub mod Runs
