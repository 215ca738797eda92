pub mod TypeText
pub mod Spellable
pub mod Texts
pub mod Operands
pub mod PrintText
