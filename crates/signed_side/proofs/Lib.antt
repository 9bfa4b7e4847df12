pub mod Sums
pub mod Groups
