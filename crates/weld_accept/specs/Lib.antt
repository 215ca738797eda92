pub mod Derived
pub mod Machine
pub mod Stops
pub mod Table
pub mod Operand
