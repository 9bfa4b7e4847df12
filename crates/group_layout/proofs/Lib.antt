pub mod Laws
pub mod Codes
