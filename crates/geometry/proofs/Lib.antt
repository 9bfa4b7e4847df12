pub mod Widths
pub mod Bits
