pub mod Uses
pub mod Arms
pub mod Sources
pub mod SourceView
pub mod Labels
pub mod Resolve
pub mod ScopeView
pub mod AvailableView
