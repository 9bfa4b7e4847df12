pub mod Climbing
pub mod Forming
pub mod Uniting
pub mod Keeping
pub mod Least
pub mod Sides
pub mod Counting
