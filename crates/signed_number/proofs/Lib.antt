pub mod Integers
pub mod Raised
