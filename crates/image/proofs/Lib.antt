pub mod Calls
pub mod Sharp
pub mod Places
