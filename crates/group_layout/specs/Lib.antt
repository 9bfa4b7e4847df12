pub mod Layout
pub mod Code
pub mod Merged
