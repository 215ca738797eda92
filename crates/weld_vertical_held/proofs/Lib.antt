mod ListPlaced
mod ListMeans
mod ListRule
mod Joined
