pub mod Bits
pub mod Digits
pub mod Laws
pub mod Fields
pub mod Steps
