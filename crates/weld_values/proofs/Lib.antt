mod Numbers
mod Eights
mod Integers
mod Judgements
mod Listings
mod Words
mod Scalars
mod Soles
mod Structs
mod Vectors
mod Wholes
mod Strings
mod Shrinks
pub mod Readings
mod Backs
mod RoundTrip
mod Bytes
mod KeyTypes
mod EntryJudgements
mod EntryListings
pub mod Typed
pub mod Deciding
mod Readable
pub mod OneReading
mod Ascending
mod Settling
mod Cuts
mod Carried
mod Pieces
mod CutBack
