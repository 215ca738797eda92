mod ArgumentsBlocks
mod ArgumentsOneAnswer
mod Blocks
mod Claims
mod OneAnswer
mod Owners
