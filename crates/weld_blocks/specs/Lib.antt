pub mod Lent
pub mod Numbers
pub mod Outer
pub mod Picked
pub mod Scope
pub mod Structs
pub mod Turned
pub mod Works
