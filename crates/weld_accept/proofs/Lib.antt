mod Begun
mod Made
mod Ranks
mod Tokens
mod AtOnce
mod Operators
