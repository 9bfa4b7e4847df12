pub mod Median
pub mod Exchange
