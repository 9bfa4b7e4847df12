pub mod Laws
pub mod Places
pub mod Past
pub mod Taken
