pub mod Carries
pub mod Starts
pub mod Pairs
pub mod Steps
