mod Falling
mod Once
mod Sound
