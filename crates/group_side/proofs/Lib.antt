pub mod Slots
pub mod Bytes
pub mod Parts
pub mod Unions
pub mod Exact
