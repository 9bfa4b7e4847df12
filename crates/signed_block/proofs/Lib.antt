pub mod Widths
pub mod Counters
pub mod Times
