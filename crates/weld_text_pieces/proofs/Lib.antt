mod Commas
mod Whole
mod Fields
mod Pieces
