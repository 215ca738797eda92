pub mod CodeTests
mod Cases
mod TestLemmas
mod Tables
mod Typing
mod Elements
