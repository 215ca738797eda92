mod Graphs
mod Additions
mod Marking
mod Numbering
mod Placing
mod Chaining
mod Whole
mod Picking
