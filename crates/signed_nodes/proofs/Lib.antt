pub mod Integers
pub mod Nodes
