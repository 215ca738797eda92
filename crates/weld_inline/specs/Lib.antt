pub mod Inlining
