pub mod Blocks
pub mod Lanes
pub mod Slot
pub mod Unions
