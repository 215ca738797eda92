mod Taking
mod Clear
mod Steps
mod Binding
mod Nodes
mod Answered
mod Chains
