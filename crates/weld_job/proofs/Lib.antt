mod Cutting
mod Whole
