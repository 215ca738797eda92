mod Bodies
mod Existing
mod Unnoting
