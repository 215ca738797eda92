mod Counting
mod Cutting
mod Following
mod Sent
mod Shared
mod Spanning
mod Stretching
