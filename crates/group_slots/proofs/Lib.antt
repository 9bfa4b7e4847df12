pub mod Slots
pub mod Places
pub mod Bits
pub mod Twins
pub mod Changing
pub mod Gaps
pub mod AnyKind
