pub mod Levels
pub mod Byte
pub mod Places
pub mod Exchanging
