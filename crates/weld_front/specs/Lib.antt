pub mod Accepting
pub mod Texts
pub mod Asking
pub mod Concluding
pub mod Sessions
pub mod Answer
pub mod Exit
