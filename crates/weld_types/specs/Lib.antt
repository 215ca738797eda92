pub mod Tests
pub mod Walk
pub mod Sizes
pub mod Says
pub mod ScopeView
pub mod Gathered
