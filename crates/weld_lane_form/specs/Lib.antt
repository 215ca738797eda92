pub mod Bodies
pub mod LetsView
pub mod Made
pub mod Lowering
pub mod Marking
