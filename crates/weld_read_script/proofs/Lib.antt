mod Reading
mod Closing
mod Types
mod Joining
mod Sound
mod RequestsReading
mod Places
mod RequestsSound
mod Keeping
mod Lists
mod Few
mod Placing
mod Calling
mod Lines
pub mod Knowing
