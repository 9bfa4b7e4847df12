pub mod Meter
pub mod Valid
