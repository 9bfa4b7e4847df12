pub mod Readings
pub mod Counters
pub mod Masks
pub mod Merges
