pub mod Places
pub mod Widening
