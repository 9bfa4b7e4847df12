pub mod Signed
pub mod Counters
pub mod Passed
