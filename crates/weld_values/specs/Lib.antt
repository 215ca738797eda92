pub mod Tokens
pub mod Grammar
pub mod Reading
pub mod Judging
pub mod Showing
pub mod Eights
pub mod Pieces
pub mod Places
