pub mod Gathered
pub mod Noted
pub mod Unnoted
pub mod Notes
pub mod Typed
